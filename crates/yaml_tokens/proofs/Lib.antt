mod LineLemmas
mod ShownLemmas
mod WriteLemmas
