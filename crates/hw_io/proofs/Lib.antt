mod AnswerLemmas
mod Pieces
