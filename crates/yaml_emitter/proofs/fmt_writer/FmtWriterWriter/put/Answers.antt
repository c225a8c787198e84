use Rattle.yaml_emitter.proofs.Common.{refl, stopped_one, wrote_one}
use Rattle.yaml_emitter.proofs.fmt_writer.FmtWriterWriter.put.Goals as goal

pub returns : goal.returns
returns g c = record {
  ok = λ k. wrote_one _ _ _ _ (record { bytes = c.args.text.now; spells = refl; took = c.write_str.ensures.ok k });
  err = λ _. stopped_one _ _ _ _ _ tt;
}
