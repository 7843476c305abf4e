mod Gathering
mod Insertions
