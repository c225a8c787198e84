-- What a reader must believe: layouts, JSON texts, quoted texts, rows and meanings.
pub use Rattle.yaml_rust2.specs.Anchored.{Anchor, last_tree, with_end}
pub use Rattle.yaml_rust2.specs.Basic.{IsBasic, IsBasicLayout}
pub use Rattle.yaml_rust2.specs.Beginning.{Begins, IsPlace}
pub use Rattle.yaml_rust2.specs.BlockLines.{AreLines, contents}
pub use Rattle.yaml_rust2.specs.Cut.{IsCut, IsCutOfBeginning}
pub use Rattle.yaml_rust2.specs.Cuts.{IsReadOfCut}
pub use Rattle.yaml_rust2.specs.DumpIsLaidOut.{IsDumpLaidOut}
pub use Rattle.yaml_rust2.specs.DumpText.{dump_text}
pub use Rattle.yaml_rust2.specs.Escapes.{double_quoted}
pub use Rattle.yaml_rust2.specs.Faults.{IsThere}
pub use Rattle.yaml_rust2.specs.Gap.{AreEmptyLines, IsGap}
pub use Rattle.yaml_rust2.specs.Json.{IsJsonText}
pub use Rattle.yaml_rust2.specs.JsonGap.{Blank, TabsBeginLines}
pub use Rattle.yaml_rust2.specs.JsonNumber.{Number, number_tree}
pub use Rattle.yaml_rust2.specs.JsonString.{Piece, unescaped}
pub use Rattle.yaml_rust2.specs.Layout.{AreLaidOut}
pub use Rattle.yaml_rust2.specs.Meaning.{Means}
pub use Rattle.yaml_rust2.specs.NoAlias.{HasNoAlias}
pub use Rattle.yaml_rust2.specs.NoPiece.{IsBlockFault, IsFollowed, IsPlainFault, NoPiece}
pub use Rattle.yaml_rust2.specs.Position.{Position}
pub use Rattle.yaml_rust2.specs.Positions.{IsPositionIn}
pub use Rattle.yaml_rust2.specs.QuotedText.{IsQuoted}
pub use Rattle.yaml_rust2.specs.ReadAs.{ReadAs}
pub use Rattle.yaml_rust2.specs.Row.{HasRow, IsRead}
pub use Rattle.yaml_rust2.specs.Rowless.{HasNoRow}
pub use Rattle.yaml_rust2.specs.Failing.{Fails, MayNotStand}
pub use Rattle.yaml_rust2.specs.First.{comes_first, FailsFirst}
pub use Rattle.yaml_rust2.specs.Stuck.{IsStuck}
pub use Rattle.yaml_rust2.specs.Told.{is_told}
pub use Rattle.yaml_rust2.specs.Toks.{toks}
pub use Rattle.yaml_rust2.specs.ValidTree.{IsValid}
pub use Rattle.yaml_rust2.specs.Writable.{IsWritable, levels}
