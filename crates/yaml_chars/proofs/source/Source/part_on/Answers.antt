use Rattle.yaml_chars.proofs.Common.{ap, ap₂, arith, begin, chars, drop, drop-append-le, false, slice_index, sym, take, ◌++◌, ◌+◌, ◌==◌, ◌∙◌, ◌≡◌}
use Rattle.yaml_chars.proofs.BlockLineLemmas.{chars_front, part_bytes, part_cut}
use Rattle.yaml_chars.proofs.WordsLemmas.{front, Gives-on, Stands-on}
use Rattle.yaml_chars.proofs.source.Source.part_on.Goals as goal

pub range-passed-requires-clause-end_boundary : goal.range-passed-requires-clause-end_boundary
range-passed-requires-clause-end_boundary g c =
    let bytes = part_bytes c.args.part c.args.held.now _ _ _ (rw c.as_bytes-bytes.ensures.value at c.in-Some.ensures) in
    part_cut bytes.1 c.known-known.utf8

pub pass-requires-clause-cut : goal.pass-requires-clause-cut
pass-requires-clause-cut g c =
    let bytes = part_bytes c.args.part c.args.held.now _ _ _ (rw c.as_bytes-bytes.ensures.value at c.in-Some.ensures) in
    rw (← c.known-known.ensures) (part_cut bytes.1 c.known-known.utf8)

pub invariant_of-self : goal.invariant_of-self
invariant_of-self g c =
    let going : c.self.inside.done ≡ false = rw (← c.self.view_is) at (sym c.has_ended.ensures.value ∙ c.if-has_ended.false) in
    let ready = c.self.invariant.ready going in
    Stands-on c.self.invariant going _ (c.push_text.ensures ∙ ap (λ x. c.self.inside.taken.items ++ chars x)
    (front _ c.range-passed.ensures.value c.known-known.ensures))
    _ c.pass.ensures.gives (c.pass.ensures.can, (c.pass.ensures.goes ready.1).0)

pub returns-clause-some : goal.returns-clause-some
returns-clause-some g c =
    let n = c.in-Some.ended.text in
    let count = n + 1 + c.in-Some.ended.spaces + 1 in
    let known = g.T.Characters.known c.self.inside.iter in
    let going : c.self.inside.done ≡ false = rw (← c.self.view_is) at (sym c.has_ended.ensures.value ∙ c.if-has_ended.false) in
    let same = c.as_bytes-bytes.ensures.value ∙ c.known-known.ensures in
    let ends = rw same at c.in-Some.ensures in
    let bytes = part_bytes c.args.part c.args.held.now known _ _ ends in
    let all = chars_front bytes.1 count (omega arith) in
    let text = ap chars (front n c.range-rest.ensures.value c.known-known.ensures) ∙ chars_front bytes.1 n (omega arith) in
    rw (c.given.ensures, ← c.self.view_is) record {
      going = going;
      known = known;
      ends = ends;
      gives = Gives-on c.self.invariant going _ (c.push_text.ensures
          ∙ ap (λ x. c.self.inside.taken.items ++ x) (ap chars (front count c.range-passed.ensures.value c.known-known.ensures) ∙ all)) _
          (rw all at c.pass.ensures.goes);
      broke = ap (λ b. slice_index b n == 10) same;
      next = c.from-next.ensures ∙ ap (λ b. slice_index b (n + 1 + c.in-Some.ended.spaces)) same;
      joined =
          let up_to = bytes.1 in
          c.in_ok-text.ensures ∙ ap₂ (λ k x. drop k c.args.held.now ++ x) c.begin.ensures text
          ∙ sym (drop-append-le (begin c.args.part) c.args.held.now (take n known) up_to.text.begun);
    }
