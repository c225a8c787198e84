-- What the tokens of a node, of items and of pairs say and are read as, and how these are put together.
use Rattle.proof_layouts.proofs.Common.{[], Anchor, ap, append-nil, append_assoc, AreDistinct, Bool, Ev, finished, in_block, in_pair, Items, List, list_of, Nest, nest, nest_events, nest_pair, nest_pairs_events, nested_mapping, nested_scalar, nested_sequence, NestPairs, Nests, nests_events, no_nest_pairs, no_nests, None, number, Ok, Option, pairs_of, Place, read_items, read_node, refl, Style, Tok, Tree, with_anchor, ℕ, ◌++◌, ◌∷◌, ◌≡◌}
use Rattle.defs_event.specs.Grammar as at
use Rattle.defs_event.specs.Scalar.{scalar_tree}
use Rattle.proof_layouts.proofs.Held.{PairsRead, no_pairs_read, pair_read, list_again}
use Rattle.proof_layouts.proofs.Says.{Works, goal_and, Goes, taken, behind, node_and, scalar}
use Rattle.proof_layouts.proofs.Numbered.{Known, begin, begun_by, ended_by, finish}

-- ---- x is known before it; after it are the anchors b

-- a node at p, after an anchor o or without one: its tokens say the events of a nested node, which is read as the tree
pub record ReadsNode (keep_tags : Bool) {opens : List ℕ} {a : List Anchor} (x : Known opens a) (b : List Anchor) (o : Option (List ℕ))
    (p : Place) (tokens : List Tok → List Tok) (t : Tree) : Type 0 where
  pub after : Known opens b
  pub node : Nest
  pub says : Goes keep_tags x.names after.names (node_and o p) (behind p) tokens (λ r. r) (nest_events node)
  pub reads : read_node node x.read ≡ Ok (t, after.read)

-- the items of a sequence at p, with its end
pub record ReadsItems (keep_tags : Bool) {opens : List ℕ} {a : List Anchor} (x : Known opens a) (b : List Anchor) (p : Place)
    (work : Works → Works) (tokens : List Tok → List Tok) (ts : List Tree) : Type 0 where
  pub after : Known opens b
  pub nodes : Nests
  pub says : Goes keep_tags x.names after.names work (behind p) tokens (λ r. r) (λ es. nests_events nodes (Ev.sequence_end ∷ es))
  pub reads : (held : List Tree) → read_items nodes held x.read ≡ Ok (held ++ ts, after.read)

-- pairs of new keys, with the mapping's end
pub record ReadsPairs (keep_tags : Bool) {opens : List ℕ} {a : List Anchor} (x : Known opens a) (b : List Anchor) (entries : at.Goal)
    (tokens : List Tok → List Tok) (ps : List (Tree × Tree)) : Type 0 where
  pub after : Known opens b
  pub nodes : NestPairs
  pub says : Goes keep_tags x.names after.names (goal_and entries) (λ w. w) tokens (λ r. r)
      (λ es. nest_pairs_events nodes (Ev.mapping_end ∷ es))
  pub reads : PairsRead nodes ps x.read after.read

-- ---- nodes

pub scalar_reads : {keep_tags : Bool} {opens : List ℕ} {a : List Anchor} (x : Known opens a) (o : Option (List ℕ)) (p : Place)
    (style : Style) (text : List ℕ) (t : Tree)
    → scalar_tree text style None ≡ t → ReadsNode keep_tags x (ended_by o t (begun_by o a)) o p (λ r. Tok.scalar style text ∷ r) t
scalar_reads x o p style text t is = record {
  after = finish o x.names t (begin o x);
  node = nested_scalar text style (number x.names o) None;
  says = λ w r es d. scalar o p style text d;
  reads = ap (λ u. Ok (u, finished (number x.names o) u x.read)) is;
}

-- a sequence, by its items and by how it begins
pub sequence_reads : {keep_tags : Bool} {opens : List ℕ} {a b : List Anchor} {x : Known opens a} {o : Option (List ℕ)} {p : Place}
    {work : Works → Works} {inside tokens : List Tok → List Tok} {items : Items}
    → Goes keep_tags x.names (with_anchor x.names o) (node_and o p) work tokens inside
    (λ es. Ev.sequence_start (number x.names o) None ∷ es)
    → ReadsItems keep_tags (begin o x) b p work inside (list_of items)
    → ReadsNode keep_tags x (ended_by o (Tree.array items) b) o p tokens (Tree.array items)
sequence_reads {x = x} {o = o} {items = items} begins y = record {
  after = finish o x.names (Tree.array items) y.after;
  node = nested_sequence (number x.names o) None y.nodes;
  says = λ w r es d. begins w r _ (y.says w r es d);
  reads = rw (y.reads [], list_again items) refl;
}

-- a mapping, by its pairs and by how it begins
pub mapping_reads : {keep_tags : Bool} {opens : List ℕ} {a b : List Anchor} {x : Known opens a} {o : Option (List ℕ)} {p : Place}
    {entries : at.Goal} {inside tokens : List Tok → List Tok} {ps : List (Tree × Tree)}
    → Goes keep_tags x.names (with_anchor x.names o) (node_and o p) (λ w. goal_and entries (behind p w)) tokens inside
    (λ es. Ev.mapping_start (number x.names o) None ∷ es)
    → AreDistinct ps → ReadsPairs keep_tags (begin o x) b entries inside ps
    → ReadsNode keep_tags x (ended_by o (Tree.hash (pairs_of ps)) b) o p tokens (Tree.hash (pairs_of ps))
mapping_reads {x = x} {o = o} {p = p} {ps = ps} begins distinct y = record {
  after = finish o x.names (Tree.hash (pairs_of ps)) y.after;
  node = nested_mapping (number x.names o) None y.nodes;
  says = λ w r es d. begins w r _ (y.says (behind p w) r es d);
  reads = rw (y.reads.behind [] distinct) refl;
}

-- ---- items and pairs

pub no_items : {keep_tags : Bool} {opens : List ℕ} {a : List Anchor} {x : Known opens a} {p : Place} {work : Works → Works}
    {last : List Tok → List Tok}
    → Goes keep_tags x.names x.names work (behind p) last (λ r. r) (λ es. Ev.sequence_end ∷ es) → ReadsItems keep_tags x a p work last []
no_items {x = x} ends = record { after = x; nodes = no_nests; says = ends; reads = λ held. rw append-nil refl }

pub item_reads : {keep_tags : Bool} {opens : List ℕ} {a b c : List Anchor} {x : Known opens a} {p : Place} {work : Works → Works}
    {first others : List Tok → List Tok} {t : Tree} {ts : List Tree}
    → Goes keep_tags x.names x.names work (λ w. node_and None in_block (work w)) (λ r. Tok.block_entry ∷ r) (λ r. r) (λ es. es)
    → (y : ReadsNode keep_tags x b None in_block first t) → ReadsItems keep_tags y.after c p work others ts
    → ReadsItems keep_tags x c p work (λ r. Tok.block_entry ∷ first (others r)) (t ∷ ts)
item_reads {work = work} {others = others} {t = t} dash y z = record {
  after = z.after;
  nodes = nest y.node z.nodes;
  says = λ w r es d. dash w _ _ (y.says (work w) (others r) _ (z.says w r es d));
  reads = λ held. rw (y.reads, z.reads (held ++ t ∷ []), append_assoc) refl;
}

pub no_pairs : {keep_tags : Bool} {opens : List ℕ} {a : List Anchor} {x : Known opens a} {entries : at.Goal} {last : List Tok → List Tok}
    → Goes keep_tags x.names x.names (goal_and entries) (λ w. w) last (λ r. r) (λ es. Ev.mapping_end ∷ es)
    → ReadsPairs keep_tags x a entries last []
no_pairs {x = x} ends = record { after = x; nodes = no_nest_pairs; says = ends; reads = no_pairs_read x.read }

pub pair_reads : {keep_tags : Bool} {opens : List ℕ} {a b c d : List Anchor} {x : Known opens a} {first second others : List Tok → List Tok}
    {k v : Tree} {ps : List (Tree × Tree)} (y : ReadsNode keep_tags x b None (in_pair at.key) first k)
    (z : ReadsNode keep_tags y.after c None (in_pair at.value) second v) → ReadsPairs keep_tags z.after d at.block_mapping_entries others ps
    → ReadsPairs keep_tags x d at.block_mapping_entries (λ r. Tok.key ∷ first (Tok.value ∷ second (others r))) ((k, v) ∷ ps)
pair_reads {others = others} y z rest = record {
  after = rest.after;
  nodes = nest_pair y.node z.node rest.nodes;
  says = λ w r es h. taken _ refl (y.says w _ _ (taken _ refl (z.says w (others r) _ (rest.says w r es h))));
  reads = pair_read y.reads z.reads rest.reads;
}
