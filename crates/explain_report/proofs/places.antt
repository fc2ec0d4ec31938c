mod ArrowLemmas
mod CutLemmas
mod FlagLemmas
mod NameLemmas
