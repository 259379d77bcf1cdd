pub mod PromisesProved
