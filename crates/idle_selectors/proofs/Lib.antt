mod Found
mod Noted
