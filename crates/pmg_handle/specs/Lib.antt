pub mod BoxedAt
