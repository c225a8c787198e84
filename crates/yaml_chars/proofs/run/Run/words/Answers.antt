use Rattle.yaml_chars.proofs.Common.{arith, nat_tests, slice_index, ◌+◌, ◌<◌}
use Rattle.yaml_chars.proofs.WordsLemmas.{words_more, ascii_word, or_parts}
use Rattle.yaml_chars.proofs.run.Run.words.Goals as goal

pub words-preserved : goal.words-preserved
words-preserved c = (
  words_more _ _ _ _ c.words.invariant.0 c.words-test.true c.if-bytes-end-eq32.true (c.is_first.ensures c.if-is_first.true) c.word_end-word.ensures.word,
  λ h.
      let parts = or_parts _ c.word_end-word.result.beyond h in
      let more = or_parts c.words.beyond _ parts.0 in
      let low : slice_index c.args.bytes.now (c.words.end + 1) < 128 = let not_high = more.1 in grind (arith, nat_tests) in
      ascii_word _ _ _ (c.words.invariant.1 more.0) c.if-bytes-end-eq32.true low (c.word_end-word.ensures.ascii parts.1),
  c.word_end-word.ensures.ends,
)
