pub mod GroupTests
pub mod GroupsBelow
pub mod GroupMembers
