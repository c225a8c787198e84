use Rattle.yaml_encoding.proofs.Common.{inl, inr, rules, ◌∙◌}
use Rattle.yaml_encoding.proofs.Utf8Lemmas.{Trails-start, Trails-end, Trails-leave, Trails-next}
use Rattle.yaml_encoding.proofs.utf_8.utf_8_sequence.Goals as goal
use Rattle.yaml_encoding.proofs.utf_8.utf_8_sequence.Goals.{then-byte-start-via-then-byte-start, then-byte-start-via-else-byte-start+then-start-byte}

pub trails-init : goal.trails-init
trails-init c = Trails-start _ _ _ _ _ (search rules) c.in-Some.ensures.value c.in-Some.ensures.few c.in-Some.ensures.above

pub returns-in_default-get : goal.returns-in_default-get
returns-in_default-get c = c.malformed-in_default-get.ensures ∙ Trails-end _ _ _ _ _ _ c.trails.invariant (search rules) (search rules)

pub returns-then-byte-start : goal.returns-then-byte-start
returns-then-byte-start c = c.malformed-then-byte-start.ensures ∙ Trails-leave _ _ _ _ _ _ c.trails.invariant (search rules) (search rules)
    (elim c.then-byte-start.branch [ then-byte-start-via-then-byte-start w ↦ inl (search rules) | then-byte-start-via-else-byte-start+then-start-byte w ↦ inr (search rules) ])

pub trails-preserved : goal.trails-preserved
trails-preserved c = Trails-next _ _ _ _ _ _ _ c.trails.invariant (search rules) (search rules) (search rules) (search rules) (search rules)
