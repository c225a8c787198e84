-- Trees in which no alias stands.
use Rattle.defs_tree.specs.Tree.{Tree, array, hash, alias, Items, no_items, item, Pairs, no_pairs, pair}

abbrev mutual
  pub HasNoAlias : Tree → Type 0
  HasNoAlias (array ts) = NoneHasAlias ts
  HasNoAlias (hash ps) = NoPairHasAlias ps
  HasNoAlias (alias n) = ⊥
  HasNoAlias _ = Unit {0}

  -- in none of the items
  pub NoneHasAlias : Items → Type 0
  NoneHasAlias no_items = Unit {0}
  NoneHasAlias (item t ts) = HasNoAlias t × NoneHasAlias ts

  -- in no key and no value
  pub NoPairHasAlias : Pairs → Type 0
  NoPairHasAlias no_pairs = Unit {0}
  NoPairHasAlias (pair k v ps) = HasNoAlias k × HasNoAlias v × NoPairHasAlias ps
