pub mod BorderProved
