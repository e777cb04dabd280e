pub mod CountsRead
pub mod RoomsAndMessages
pub mod SeenCopies
