pub mod Resources
pub use Resources.{media_type_of, resource_at}
unfoldable pub use Resources.{bytes_of, tag_of}
pub use declared.resource.Resource.{Resource}
