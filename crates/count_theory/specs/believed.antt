pub mod CountAt
