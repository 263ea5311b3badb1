pub mod SeenWords
