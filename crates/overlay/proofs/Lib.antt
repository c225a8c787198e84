mod Common
mod InsertedLemmas
pub mod MergeKey
pub mod MergeWritable
pub mod PutLemmas
mod WritableLemmas
