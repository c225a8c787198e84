use Rattle.yaml_emitter.proofs.Common.{encodes-chars, has_written_of_eq, stopped_one, sym, wrote_one}
use Rattle.yaml_emitter.proofs.fmt_writer.FmtFormatterWriter.put.Goals as goal

pub returns : goal.returns
returns g c = record {
  ok = λ k. wrote_one _ _ _ _ (λ plain. has_written_of_eq _ _ _ _ _ (sym (encodes-chars c.args.text.now c.utf8.text)) (c.write_str.ensures.writes plain k));
  err = λ _. stopped_one _ _ _ _ _ tt;
}
