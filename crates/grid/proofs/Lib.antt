mod Regions
mod Table
