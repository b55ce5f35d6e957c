mod Answered
mod Lines
