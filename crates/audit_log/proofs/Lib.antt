mod Entries
mod LogLines
mod Moves
mod Replies
