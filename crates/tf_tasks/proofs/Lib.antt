mod TotalLemmas
mod ShownLemmas
