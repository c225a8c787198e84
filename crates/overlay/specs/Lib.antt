pub use Rattle.defs_tree.specs.MergeFault as Fault
pub mod Found
pub mod Inserted
pub use Rattle.defs_tree.specs.MergeLaws as Laws
pub mod Outcome
pub use Rattle.defs_tree.specs.Merge
pub use Rattle.defs_tree.specs.Overlay
