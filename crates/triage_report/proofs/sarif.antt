mod FloatLemmas
mod FrameLemmas
mod LogLemmas
mod ResultLemmas
