pub mod Changes
