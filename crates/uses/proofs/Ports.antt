-- What is said of the port of a text's first document.
use Rattle.std.proofs.Common.{◌≡◌, ℕ, ℤ, List, false, Some, None, Result, Ok, Err, ap, sym, ◌∙◌}
use Rattle.std.specs.Prelude.{codes, option_and_then, slice_get}
use Rattle.yaml_loader.specs.MarkedLoading.{AreMarksOf}
use Rattle.yaml_loader.specs.Marks.{Marks, node_at_text}
use Rattle.yaml_rust2.specs.Meaning.{Means}
use Rattle.yaml_rust2.specs.Tree.{Tree}
use Rattle.uses.specs.Ports.{JudgesNode, JudgesText, first_port}
use Rattle.uses.specs.declared.validator.Invalid.{Invalid}
use Rattle.uses.specs.declared.validator.Invalid.TheVariants as invalid

pub first_port_is : (ts : List Tree) (ms : List Marks) (t : Tree) (m : Marks) → Some t ≡ slice_get ts 0 → Some m ≡ slice_get ms 0 → node_at_text (codes "port") t m ≡ first_port ts ms
first_port_is ts ms t m p q =
    ap (option_and_then (λ n. node_at_text (codes "port") t n)) q ∙ ap (option_and_then (λ u. option_and_then (λ n. node_at_text (codes "port") u n) (slice_get ms 0))) p

pub no_first_port : (text : List ℕ) (ts : List Tree) (ms : List Marks) → Means false text ts → AreMarksOf false text ms → None ≡ slice_get ts 0 → JudgesText text (Err invalid.NoPort)
no_first_port text ts ms read marked p =
    let none : None ≡ first_port ts ms = ap (option_and_then (λ u. option_and_then (λ n. node_at_text (codes "port") u n) (slice_get ms 0))) p in
    record { trees = ts; marks = ms; read = read; marked = marked; judged = sym none }

pub first_judged : (text : List ℕ) (ts : List Tree) (ms : List Marks) (r : Result ℤ Invalid) → Means false text ts → AreMarksOf false text ms → JudgesNode (first_port ts ms) r → JudgesText text r
first_judged text ts ms (Ok n) read marked j = record { trees = ts; marks = ms; read = read; marked = marked; judged = j }
first_judged text ts ms (Err (invalid.Scan f)) read marked j = absurd j
first_judged text ts ms (Err invalid.NoPort) read marked j = record { trees = ts; marks = ms; read = read; marked = marked; judged = j }
first_judged text ts ms (Err (invalid.Port l c)) read marked j = record { trees = ts; marks = ms; read = read; marked = marked; judged = j }
