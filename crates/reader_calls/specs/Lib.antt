-- Where a reader stands after a random call.
pub mod Stands
