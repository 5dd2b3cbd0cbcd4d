-- What the parts of the search for the cheapest selection promise each other.
pub mod Search
