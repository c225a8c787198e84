-- The words of the logic that proofs by hand here use, passed on from one place. Declares nothing.
pub use mathlib.Core.Path.{refl}
pub use mathlib.Core.List.{[], ◌++◌, ◌∷◌}
pub use mir.Syntax.{a_type}
pub use mir.Val.{Val, vcons, vnil, vstruct}
pub use mir.MapTy.{inst_fn}
pub use base.Fml.{Fml}
pub use types.Kit.{ !, done, fjoin, join, keep, move, qed, raw, split, suffices, use0, ‵, ◌$◌, ◌∵◌, ◌⊛◌}
pub use types.Run.{and_then, enter, no_more, returns}
pub use types.Part.{agg}
pub use types.ByLocal.{alloc_all, free_all, get, look_at, pass_all, sets}
pub use denote.RattleType.{owns}
pub use denote.Exit.{yes}
pub use denote.Builtin.{RefOf}
pub use denote.Param.{layouts, param}
pub use denote.Ref.{shr_vals}
pub use denote.Shadow.{makes_shadow}
pub use denote.Signature.{plain, Slot, type_at, types_at}
pub use denote.Steps.{nothing}
pub use denote.Text.{Char, StrRefOf}
pub use denote.Triple.Entry.{alive, Res}
pub use denote.Triple.Walked.{ends_at, Goes-dropped, says, stay_dropped, Stays, walk_of}
pub use Rattle.std.proofs.raw_atomic.Walks.{proved}
