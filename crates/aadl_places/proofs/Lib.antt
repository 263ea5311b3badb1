pub mod LongSizes
