pub mod PackLaws
pub mod WriterLaws
pub mod CursorLaws
pub mod BufferLaws
pub mod ReaderLaws
pub mod UnpackLaws
