use Rattle.yaml_emitter.proofs.Answering.{array, by_empty, hash, is_block, items_of, pairs_of, refl, ◌≡◌}
use Rattle.yaml_emitter.proofs.node.has_parts.Goals as goal

pub returns-in-Array : goal.returns-in-Array
returns-in-Array c =
    rw c.in-Array.is (by_empty (λ b ts. b ≡ is_block (array (items_of ts))) refl (λ t ts. refl) c.is_empty.result _ c.is_empty.ensures)

pub returns-in-Hash : goal.returns-in-Hash
returns-in-Hash c =
    rw c.in-Hash.is (by_empty (λ b ps. b ≡ is_block (hash (pairs_of ps))) refl
    (λ p ps. refl) c.is_empty-in-Hash.result _ c.is_empty-in-Hash.ensures)
