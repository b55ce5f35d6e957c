mod Gathered
mod Fronted
mod Rooted
mod Judged
mod Listed
mod Whole
mod Existing
