pub mod FourTables
pub mod NumberTables
pub mod OpTables
pub mod SixTables
pub mod UnitedSets
pub mod SixFirst
