pub mod ColumnsLaws
