mod Counting
mod Playing
mod Readings
mod Requests
mod Running
mod Sums
