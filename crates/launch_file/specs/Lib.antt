-- Reading a whole launch file. `Reading` has what is promised; `Pairs` and `Lists` have the laws that the code goes by. Assumes nothing.
pub mod Reading
pub mod Pairs
pub mod Lists
