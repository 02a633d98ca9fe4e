mod AnswerLemmas
mod ListLemmas
mod ProgressLemmas
