pub mod Answers
pub mod Forms
pub mod Named
pub mod PairFaults
pub mod Requests
pub mod Uses
