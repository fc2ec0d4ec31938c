pub mod CallerLemmas
pub mod ManyLemmas
pub mod NumberLemmas
pub mod PlaceLemmas
pub mod RisingLemmas
