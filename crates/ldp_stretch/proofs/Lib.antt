mod Lists
mod Columns
mod TwinRuns
mod Spans
