-- What the proofs by hand of `key_mut` and `place_mut` cite.
pub use mathlib.Core.Path.{◌≡◌, ◌∙◌, refl, sym, ap}
pub use mathlib.Core.List.{List, [], ◌∷◌}
pub use base.Fraction.{full_share}
pub use base.Logic.{emp, id⊢}
pub use base.Fml.{ftrue, flft, flent}
pub use mir.Syntax.{named, w64}
pub use mir.Val.{Val}
pub use contract.BorrowLft.{⊑_static}
pub use contract.Monad.{fact, fact_i}
pub use contract.Running.{tables}
pub use types.Kit.{‵, raw, ◌⊛◌, some, later, at_ret, ◌$◌, ◌∵◌, !, qed, done, move, keep, drop, use0, use1, use2, rewrite, split, join, fsplit3, fjoin3, feq_l, feq_i, pick, await, suffices, frame, group}
pub use types.Run.{enter, of_opd, addr, stop, no_more, and_then, first, branches, exec, returns}
pub use types.ByLocal.{alloc_all, pass_all, free_all, look_at, get, through, sets, lands_as, lands_last, env}
pub use types.Mut.{open_ref, close_ref}
pub use types.Tokens.{lft_new, lft_end, lent_back}
pub use denote.Builtin.{bool, usize}
pub use denote.Exit.{no, yes}
pub use denote.Follow.{follows, follows_then}
pub use denote.Laws.{Is, shows}
pub use denote.Lend.{lends_shr}
pub use denote.Memory.{mem, part_at}
pub use denote.Plain.{bool_Tells, uint_vals, uint_Tells}
pub use denote.Ref.{Bor, MutBor, MutRef, ShrRef, mut_vals, mut_Tells, mut_Lawful}
pub use denote.Signature.{plain}
pub use denote.Slice.{shr_slice_vals}
pub use denote.Steps.{nothing, only, peeks, heard}
pub use denote.Text.{Str, StrRefOf, str-laws}
pub use denote.Triple.Call.{calls_at, calls_at_last}
pub use denote.Triple.Clauses.{Lasts, lasts}
pub use denote.Triple.Spec.{triple_of}
pub use denote.Triple.Table.{framed}
pub use denote.Triple.Walked.{Stays, walk_of, says, stay_dropped, Goes-dropped, Goes-spent_ref, ends_at}
pub use Rattle.std.proofs.raw_atomic.Walks.{proved}
pub use Rattle.std.proofs.VecSteps.Shapes.{after}
