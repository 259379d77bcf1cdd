pub mod Recordings
pub mod Playback
pub mod Answered
pub mod ShownRecordings
