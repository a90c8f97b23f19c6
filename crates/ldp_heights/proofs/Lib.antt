mod Pairs
mod Tokenwise
mod KnownTokens
mod Fed
mod FirstBytes
mod Wholes
