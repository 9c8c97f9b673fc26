pub mod HostMessages
pub mod HostBodies
pub mod SessionMessages
pub mod SessionBodies
pub mod FrameStream
pub mod FrameIo
pub mod ListOfBodies
pub mod Fronts
