pub mod Line
pub mod Piece
pub mod Told
pub mod Token
