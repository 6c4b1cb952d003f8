-- Table says how the table of regions stands in lent bytes, Boxes what a region tells of the rows in it, and Steps what the functions make of the
-- table. Laws is what a search uses.
pub mod Table
pub mod Boxes
pub mod Steps
pub mod Laws
