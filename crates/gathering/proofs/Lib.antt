-- What answers of this crate share.
mod Read
