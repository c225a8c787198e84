use Rattle.yaml_parser.proofs.Answering.{ap, arith, bytes_eq, common_steps, get_by_text, if◌then◌else◌, IsNamed, option_map, Some, string_bytes, string_chars, subst, sym, with_anchor, ◌+◌, ◌∙◌, ◌≡◌}
use Rattle.yaml_parser.proofs.names.Names.register.Goals as goal

pub returns-clause-named : goal.returns-clause-named
returns-clause-named c = λ names n.
    let one : c.in-Some-checked_add.number ≡ c.args.self.now.count + 1 = grind (arith, common_steps) in
    let num : c.in-Some-checked_add.number ≡ names.count + 1 = one ∙ ap (λ m. m + 1) n.count in
    subst (λ o. IsNamed (record c.args.self.now { count = c.in-Some-checked_add.number; anchors = c.put.new.map }) (with_anchor names (option_map string_chars o))) (sym c.in-Some.is) (record {
      count = num;
      anchors = λ x. c.in_ok-put.ensures.kept x
          ∙ ap (λ m. if bytes_eq (string_chars x) (string_chars c.in-Some.name) then Some m else get_by_text c.args.self.now.anchors (string_bytes x)) num
          ∙ ap (λ o. if bytes_eq (string_chars x) (string_chars c.in-Some.name) then Some (names.count + 1) else o) (n.anchors x);
      handles = n.handles;
      numbers = n.numbers;
    })
