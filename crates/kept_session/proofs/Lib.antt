pub mod CatchingLemmas
pub mod FrontLemmas
pub mod HeadLemmas
pub mod LineLemmas
pub mod LogLemmas
pub mod PieceLemmas
mod QuestionLemmas
pub mod ReplayLemmas
pub mod RunLemmas
pub mod SplitLemmas
pub mod WholeLemmas
mod PrintLemmas
mod QuestionFindLemmas
mod QuestionOkLemmas
mod QuestionRowLemmas
mod QuestionRunLemmas
