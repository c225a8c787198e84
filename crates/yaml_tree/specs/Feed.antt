-- What a tree feeds a hasher: the place of its variant, then its contents; a text by the bytes of its UTF-8,
-- and a 1 before each item or pair, a 0 after the last.
use Rattle.std.specs.Prelude.{◌++◌, encode_utf8_all}
use Rattle.std.specs.Hash as fed
use Rattle.std.specs.Hash.{HashWrites}
use Rattle.defs_tree.specs.Tree.{Tree, real, integer, string, boolean, array, hash, alias, null, bad_value, Items, no_items, item, Pairs, no_pairs, pair}

abbrev mutual
  -- of a tree
  pub tree_feed : Tree → HashWrites
  tree_feed (real s) = fed.u8 0 ++ fed.str (encode_utf8_all s)
  tree_feed (integer z) = fed.u8 1 ++ fed.i64 z
  tree_feed (string s) = fed.u8 2 ++ fed.str (encode_utf8_all s)
  tree_feed (boolean b) = fed.u8 3 ++ fed.bool b
  tree_feed (array ts) = fed.u8 4 ++ items_feed ts
  tree_feed (hash ps) = fed.u8 5 ++ pairs_feed ps
  tree_feed (alias n) = fed.u8 6 ++ fed.usize n
  tree_feed null = fed.u8 7
  tree_feed bad_value = fed.u8 8

  -- of the items of an array
  pub items_feed : Items → HashWrites
  items_feed no_items = fed.u8 0
  items_feed (item t ts) = fed.u8 1 ++ tree_feed t ++ items_feed ts

  -- of the pairs of a hash
  pub pairs_feed : Pairs → HashWrites
  pairs_feed no_pairs = fed.u8 0
  pairs_feed (pair k v ps) = fed.u8 1 ++ tree_feed k ++ tree_feed v ++ pairs_feed ps
