mod PictureLemmas
mod SeedLemmas
