-- What a message carries.
pub use Rattle.fbl_table.specs.Tables.{IsOnce}
