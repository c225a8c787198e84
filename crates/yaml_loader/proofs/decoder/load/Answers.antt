use Rattle.yaml_loader.proofs.Common.{chars, false, IsUnread, string_chars, subst, up_to_nul}
use Rattle.yaml_loader.proofs.decoder.load.Goals as goal

-- the fault is the load's
pub returns : goal.returns
unfolding string_chars
returns c = subst (λ bytes. IsUnread false (up_to_nul (chars bytes)) c.in-Err.fault) c.as_str.ensures.value c.in-Err.ensures.reads
