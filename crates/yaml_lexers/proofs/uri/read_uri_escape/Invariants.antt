use Rattle.yaml_lexers.proofs.Common.{Bool, lead, List, percent, position_of, Reads, trails_from, uri_from, ℕ, ◌*◌, ◌+◌, ◌<◌, ◌^◌, ◌≡◌, ◌≤◌}
use Rattle.yaml_lexers.specs.ShownTag.{at}
use Rattle.yaml_lexers.proofs.uri.read_uri_escape.Given as goal

abbrev pub invariant-trails : goal.invariant-trails
invariant-trails g l = record {
  reads : Reads l.fn.window l.window (λ a b. (test : ℕ → Bool) (t : List ℕ) →
      uri_from test l.fn.start a (at (percent lead) l.fn.window t) ≡ trails_from test l.fn.start l.left l.code l.lead.least b (position_of l.window) t);
  small : (l.code + 1) * 64 ^ l.left ≤ 2 ^ 21;
  less : l.window.left < l.fn.window.left;
}

abbrev pub decreases-trails : goal.decreases-trails
decreases-trails g l = l.left
