use Rattle.uses.specs.Servers.{host_path, port_path}
use Rattle.yaml_loader.specs.MarkedNode.{tree_of}
use Rattle.std.proofs.Common.{◌≡◌, ℕ, ℤ, List, inl, inr, sym, ap, subst, rules, w64}
use Rattle.std.proofs.Math.Facts.{to_z-of_z}
use Rattle.std.specs.Prelude.{String, string_bytes, codes, pos}
use Rattle.std.specs.Str.{chars}
use Rattle.yaml_json.specs.Path.{Step}
use Rattle.yaml_paths.specs.Optional.{IsReadOr}
use Rattle.yaml_rust2.specs.Text.{string_chars}
use Rattle.yaml_rust2.specs.Tree.{Tree, integer, string}
use Rattle.uses.proofs.defaults.read_server.Goals as goal

-- what is read as a value is its text
as_text : {V : Type 0} (text : V → List ℕ) (default v : V) (path : List Step) (t : Tree) → IsReadOr default (λ s. string (text s)) path t v → IsReadOr (text default) string path t (text v)
as_text text default v path t (inl e) = inl e
as_text text default v path t (inr m) = inr (m.0, ap text m.1)

-- and that of a copy of its bytes
as_string : {A : Type 0} (s : String A) (default bytes : List ℕ) (path : List Step) (t : Tree) → string_bytes s ≡ bytes → IsReadOr default string path t (chars bytes) → IsReadOr default string path t (string_chars s)
unfolding string_chars
as_string s default bytes path t e h = subst (λ b. IsReadOr default string path t (chars b)) (sym e) h

-- and that of a number that was stored and read again
as_number : (default z w : ℤ) (path : List Step) (t : Tree) → z ≡ w → IsReadOr default integer path t z → IsReadOr default integer path t w
as_number default z w path t e h = subst (λ n. IsReadOr default integer path t n) e h

pub returns : goal.returns
unfolding chars
returns c =
    let t = tree_of c.args.settings in
    record {
      host = as_string c.in_ok-host.host (codes "localhost") c.in_ok-name.name.now host_path t c.in_ok-host.ensures.ok (as_text (λ s. chars s.now) _ c.in_ok-name.name host_path t c.in_ok-name.ensures);
      port = as_number (pos 8080) c.in_ok-port.port _ port_path t (sym (to_z-of_z {w = w64} {z = c.in_ok-port.port} (search rules))) c.in_ok-port.ensures;
      tls = c.in_ok-tls.ensures;
    }
